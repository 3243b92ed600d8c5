-- The theorems on lines and their laws, and of what the code's calls put together; known lines, wrong answers.
pub mod LineLaws
pub mod RoundTrip
pub mod CodeLaws
pub mod Known
pub mod Wrong
