-- The numbers that the scope gives, as the definitions cite them.
pub mod Refusal
pub mod RefusalNumber
pub mod RefusalLaws
pub mod Limit
