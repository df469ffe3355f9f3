mod KeyPayloads
pub mod Ended
pub mod EndedOrders
pub mod EndedRows
pub mod Extends
pub mod JsonContent
pub mod JsonTexts
pub mod JsonTokens
pub mod Judged
pub mod Names
pub mod Nonces
pub mod Owners
pub mod PayloadTexts
pub mod Sound
pub mod SoundCalls
