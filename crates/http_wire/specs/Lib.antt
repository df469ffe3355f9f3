pub mod Framing
pub mod Head
pub mod ParsedRequest
pub mod Replies
pub mod Served
pub mod ShownUrls
pub mod Spelled
pub mod UrlLaws
