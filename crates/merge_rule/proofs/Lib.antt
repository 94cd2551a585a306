pub mod MergeFacts
