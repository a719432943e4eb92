-- Blocks are final over seen lives: the premise and the promises, the host's form, and what a host sees of its calls.
pub mod Finals
pub mod Fed
pub mod Calls
