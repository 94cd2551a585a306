pub mod CellLemmas
pub mod ConnectorLemmas
pub mod LimitNumbers
pub mod NetworkFacts
pub mod PlanFacts
pub mod ReadingLemmas
pub mod SoundLemmas
pub mod SoundNetwork
mod CuttingLemmas
mod NameLemmas
mod SoundCutting
mod SoundDrafts
mod SoundFields
mod SoundRecords
