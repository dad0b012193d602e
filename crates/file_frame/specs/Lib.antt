pub mod Words
pub mod Frame
pub mod Printed
