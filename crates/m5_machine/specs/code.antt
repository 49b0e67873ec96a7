-- What the code keeps while it runs or makes blocks.
pub mod Running
pub mod Shapes
pub mod Flattened
