pub mod FirstClash
