-- What is claimed. Assumes nothing.
pub mod Claims
pub mod Parts
pub mod Requests
pub mod Bytes
pub mod TestMode
pub mod Order
pub mod Table
