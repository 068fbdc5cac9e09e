pub mod Entering
pub mod Belonging
pub mod Planning
pub mod Answering
