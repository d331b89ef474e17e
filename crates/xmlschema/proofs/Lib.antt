-- Laws of reading a whole document.
mod Driving
mod Stepping
mod Answering
mod Reached
mod Laws
