pub mod DivergeFacts
