pub mod AnswerFacts
pub mod Called
pub mod SavedThenResumed
pub mod WordsStatus
