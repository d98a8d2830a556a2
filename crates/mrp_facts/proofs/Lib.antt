mod Weekly
mod Found
mod Named
