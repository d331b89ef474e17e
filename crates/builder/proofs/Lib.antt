-- Laws of the builder over the items in their buffers.
pub mod Sounding
pub mod Alikes
pub mod Takes
pub mod Stacking
pub mod Adding
pub mod Finding
pub mod Opening
pub mod Dispatching
pub mod Closing
pub mod Laws
