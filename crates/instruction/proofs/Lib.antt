-- The laws of users' operations.
pub mod UserLaws
