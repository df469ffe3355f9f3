pub mod InTurn
pub mod LineRequests
pub mod Said
