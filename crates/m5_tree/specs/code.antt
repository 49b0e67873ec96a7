-- What the code keeps of the names.
pub mod Named
