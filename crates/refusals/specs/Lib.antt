-- Why a file or a call is refused.
pub mod Reasons
