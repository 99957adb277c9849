pub mod Above
