-- What the code keeps while it runs a site.
pub mod Sound
