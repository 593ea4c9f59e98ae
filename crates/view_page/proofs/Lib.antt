mod Texts
mod LastSign
