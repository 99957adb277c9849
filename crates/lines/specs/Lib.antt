pub mod CallWalk
