pub mod CheckLemmas
pub mod KindWords
mod MarkLemmas
pub mod RecordLemmas
mod RegionLemmas
