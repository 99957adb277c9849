pub mod FirstKey
pub mod Chain
pub mod SameChains
