pub mod Act
pub mod Independent
pub mod Survives
pub mod Spare
pub mod Planted
