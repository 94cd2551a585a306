pub mod CheckMode
pub mod ChooseMode
pub mod ConvertMode
pub mod CutMode
