-- Lines of votes that a firm's own cell lacks, one by one.
pub mod Signers
