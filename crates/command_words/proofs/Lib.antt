pub mod CommandLemmas
pub mod RangeLemmas
pub mod RefusalLemmas
pub mod RequestLemmas
