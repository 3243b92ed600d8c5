-- The laws of operations on blocks in one page.
pub mod HereLaws
