-- Within: bounds. Legacy, Message, Bgp4mp: the checks in src/.
pub mod Within
pub mod Legacy
pub mod Message
pub mod Bgp4mp
