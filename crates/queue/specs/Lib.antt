-- What the queue's contracts cite. A caller reads Order and Queue; Entries and Inside are for the queue's own functions.
pub mod Order
pub mod Entries
pub mod Inside
pub mod Queue
