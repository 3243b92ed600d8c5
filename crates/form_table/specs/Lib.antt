-- The definition of what each operation needs, as one number.
pub mod FormNumbers
