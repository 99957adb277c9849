pub mod BatchLeaves
pub mod Prefix
pub mod Calls
pub mod Order
pub mod Resumed
