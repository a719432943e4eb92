-- What a block that would be taken is not, and where its slot's weights are asked for.
pub mod Laws
