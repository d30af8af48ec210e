pub mod WorkLaws
pub mod CallLaws
pub mod OnceLaws
pub mod Once
