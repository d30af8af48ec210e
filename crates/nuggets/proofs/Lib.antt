pub mod PieceLaws
pub mod TestLaws
pub mod TouchLaws
pub mod SpanLaws
pub mod Outcomes
