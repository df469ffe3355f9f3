pub mod Effects
pub mod Hidden
pub mod Holds
pub mod Images
pub mod Layouts
pub mod Sorted
