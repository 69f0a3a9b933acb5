mod Sents
mod Queues
mod BySlot
mod Lasts
