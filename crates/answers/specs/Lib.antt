-- What the face's contracts cite.
pub mod Face
