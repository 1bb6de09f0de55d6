pub mod Examples
pub mod Files
pub mod Places
pub mod WorkedRefusals
pub mod WorkedReplays
