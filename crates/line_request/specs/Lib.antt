-- The definitions of the program `lines`: requests and answers, and the input read byte by byte.
pub mod Requests
pub mod Session
