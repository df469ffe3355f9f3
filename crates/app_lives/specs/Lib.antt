pub mod Again
pub mod Kept
pub mod Left
pub mod SeenFiles
pub mod Told
