-- Laws of the search and of the run, as code goes through them.
pub mod ScanLaws
