-- Rules: The builder. The elements that it knows, and the attributes that each looks up.
pub mod Elements
pub mod Keys
