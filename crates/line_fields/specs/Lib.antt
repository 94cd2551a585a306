pub mod Fields
pub mod SignedFields
