-- F and G by the ways through their tests; once the rules have settled, what is final was told of.
pub mod FinalLaws
pub mod Theorems
