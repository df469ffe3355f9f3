pub mod Acting
pub mod Asking
pub mod Turning
