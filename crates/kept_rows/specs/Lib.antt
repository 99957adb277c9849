pub mod KeptOf
pub mod Ends
