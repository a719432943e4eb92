-- Laws of D and E, as code goes through them.
pub mod FallbackLaws
pub mod UnderLaws
