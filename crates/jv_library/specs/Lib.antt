pub mod Inside
pub use Rattle.jv_verify.specs.Files
