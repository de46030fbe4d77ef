mod Listed
mod PlacedGroups
