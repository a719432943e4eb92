-- The ring never hangs with a fifth stopped, over seen lives: the premise and the promises, why it must be so much, and the host's form.
pub mod Stopped
pub mod Silent
pub mod Fed
pub mod Reached
