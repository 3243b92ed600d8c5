-- The laws of the operations that are no user's.
pub mod PrivilegedLaws
pub mod SystemLaws
