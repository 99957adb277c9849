pub mod KeyOutcomeLaws
