-- Road stations and how far along a lane they are.
pub mod Along
pub mod AlongLaws
pub mod Cases
