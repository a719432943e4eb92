-- What a watcher keeps beside a voting node, and that it never votes.
pub mod PoolLaws
pub mod ShownLaws
pub mod Following
pub mod Silent
