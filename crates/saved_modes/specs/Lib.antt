pub mod RecutMode
pub mod Recutting
pub mod ResumeMode
pub mod ResumedAs
pub mod SaveMode
