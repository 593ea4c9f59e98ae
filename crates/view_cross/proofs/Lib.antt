mod Alone
mod Nodes
mod Lone
